mod Telling
pub mod Settled
mod Issued
mod Storing
mod Ran
mod Runs
mod Tracing
mod Drawn
mod Making
pub mod Waiting
