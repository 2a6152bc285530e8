pub mod Lawful
pub mod Places
pub mod Outcomes
