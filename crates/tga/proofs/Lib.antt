pub mod ImageLemmas
mod Vectors
mod TileRows
mod Swapping
