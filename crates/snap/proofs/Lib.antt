pub mod CoverLaws
mod SideLaws
