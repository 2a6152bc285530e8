pub mod Groups
pub mod Outcomes
pub mod Tolerance
