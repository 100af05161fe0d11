pub mod Limits
pub mod Numbers
pub mod Making
pub mod Points
pub mod Rule
pub mod Matrices
pub mod Theorems
pub mod Figures
