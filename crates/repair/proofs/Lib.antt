pub mod Settling
pub mod FromSegments
