-- The definitions that the promises cite.
pub mod Lengths
pub mod Blocks
pub mod Calls
pub mod Ledger
pub mod Checks
pub mod Judge
pub mod Runs
pub mod Laws
pub mod Example
