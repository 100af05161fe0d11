pub mod Repair
pub mod Theorems
