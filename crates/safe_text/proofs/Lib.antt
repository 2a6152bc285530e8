pub mod Inert
pub mod Writing
pub mod Decimal
pub mod NothingHidden
