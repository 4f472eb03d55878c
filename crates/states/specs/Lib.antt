pub mod ColorMask
pub mod MaskLaws
pub mod Raster
pub mod DepthStencil
pub mod Blend
