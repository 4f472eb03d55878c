pub mod Bits
pub mod EdgeMask
pub mod Word
