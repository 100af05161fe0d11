pub mod Cells
pub mod Points
pub mod Plans
pub mod Theorems
