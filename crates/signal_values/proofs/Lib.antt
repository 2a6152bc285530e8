pub mod Bits
pub mod Decimals
pub mod Products
