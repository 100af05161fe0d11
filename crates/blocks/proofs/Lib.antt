pub mod Pairing
pub mod Grids
pub mod FromBoxes
