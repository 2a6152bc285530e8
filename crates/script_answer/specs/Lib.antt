pub mod Wants
pub mod Text
pub mod Refused
