pub mod Halves
