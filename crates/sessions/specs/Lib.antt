pub mod Histories
pub mod Lists
pub mod Answers
pub mod Taking
pub mod Playing
pub mod Writing
pub mod Performing
pub mod Calling
