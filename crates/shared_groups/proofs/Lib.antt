pub mod Sources
pub mod Joinings
pub mod Ending
