pub mod MaskOps
