pub mod Outcome
pub mod Packed
