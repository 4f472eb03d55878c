pub mod Joining
pub mod Placing
