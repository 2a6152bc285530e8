pub mod Digits
pub mod Hex
pub mod Printed
pub mod ReadBack
