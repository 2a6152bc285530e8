pub mod Beginnings
pub mod Faults
pub mod Hearing
pub mod Own
pub mod Playing
pub mod Reading
pub mod Withheld
