-- The definitions that the promises cite.
pub mod Denials
pub mod Checks
