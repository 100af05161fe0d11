-- The lemmas of the crate.
pub mod Chains
pub mod Codes
pub mod Eights
pub mod Gathers
pub mod Holds
pub mod Index
pub mod Ordering
pub mod Packing
pub mod Shown
pub mod Steps
pub mod Tabs
pub mod Numbers
pub mod Wholes
pub mod Windows
pub mod Writes
