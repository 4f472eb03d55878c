pub mod CutLaws
pub mod TurnLaws
pub mod CountLaws
pub mod PlaceLaws
