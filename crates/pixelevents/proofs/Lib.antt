pub mod HistoryLaws
pub mod PlaceLaws
pub mod SessionLaws
pub mod OriginLaws
pub mod Filling
