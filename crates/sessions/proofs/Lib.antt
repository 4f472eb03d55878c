pub mod Played
pub mod Steps
pub mod Endings
pub mod Ran
pub mod Called
pub mod Beside
pub mod Naming
