pub mod Recorder
pub mod DrawRows
pub mod Drawable
pub mod Drawn
