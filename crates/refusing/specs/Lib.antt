pub mod Passing
