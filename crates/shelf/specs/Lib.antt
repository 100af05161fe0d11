-- The definitions that the promises cite.
pub mod Limits
pub mod Model
pub mod Calls
pub mod Stored
pub mod Lay
pub mod Order
pub mod WordShelves
pub mod Bits
pub mod PackedShelves
pub mod Copying
