pub mod Spread
pub mod Messages
