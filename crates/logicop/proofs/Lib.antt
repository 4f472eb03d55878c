pub mod Bytes
pub mod Channels
pub mod Steps
