pub mod Filling
pub mod Order
pub mod Steps
pub mod Runs
pub mod Taken
