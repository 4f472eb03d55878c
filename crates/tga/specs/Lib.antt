pub mod Image
pub mod Rows
