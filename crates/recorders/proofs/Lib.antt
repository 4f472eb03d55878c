pub mod Recordings
pub mod Growing
pub mod RowLemmas
pub mod Places
pub mod Steps
pub mod PortLemmas
pub mod EndLemmas
