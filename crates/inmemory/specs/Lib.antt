pub mod Areas
pub mod Histories
