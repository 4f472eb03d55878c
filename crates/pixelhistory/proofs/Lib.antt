pub mod Covering
pub mod Taking
pub mod Listing
pub mod Passing
pub mod Standing
pub mod Naming
