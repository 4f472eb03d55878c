pub mod FourTiles
