pub mod Descriptions
pub mod Answers
pub mod Rows
pub mod Playing
pub mod Telling
