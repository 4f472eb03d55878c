pub mod Triangle
pub mod Order
pub mod Used
pub mod Cuts
pub mod Source
pub mod Drawing
pub mod Places
