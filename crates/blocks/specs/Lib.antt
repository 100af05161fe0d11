pub mod Weights
pub mod Theorems
