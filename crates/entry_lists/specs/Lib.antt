pub mod Entries
pub mod Newest
pub mod KeptValue
pub mod KnownRows
