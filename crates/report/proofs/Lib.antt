pub mod Padded
pub mod Appending
pub mod Held
