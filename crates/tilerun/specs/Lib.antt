pub mod Touched
pub mod Drawn
pub mod Moving
