pub mod Held
pub mod Next
pub mod Outputs
pub mod Batched
pub mod Engines
pub mod Tasks
pub mod Histories
