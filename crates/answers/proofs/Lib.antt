pub mod Spelled
pub mod Cutting
