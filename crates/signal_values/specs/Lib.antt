pub mod Bits
pub mod Diagnostics
pub mod Presence
pub mod Rows
pub mod Values
