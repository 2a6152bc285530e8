pub mod Absence
pub mod Looks
