pub mod Poly
pub mod Cells
pub mod Solutions
