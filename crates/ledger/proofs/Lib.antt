-- The lemmas of the crate.
pub mod Passing
pub mod Lists
pub mod Counts
pub mod Encoders
pub mod Sound
pub mod History
pub mod Settling
pub mod Reading
pub mod Runs
pub mod Example
pub mod Alike
pub mod Kept
pub mod Naming
