pub mod OneMore
pub mod Over
pub mod Renumbering
pub mod Contexts
pub mod Standing
