pub mod Windows
pub mod Collected
pub mod Running
