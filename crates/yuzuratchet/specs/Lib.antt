pub mod Areas
pub mod Telling
