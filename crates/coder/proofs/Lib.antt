pub mod Cells
pub mod Elements
pub mod Formulas
pub mod Indices
pub mod Front
