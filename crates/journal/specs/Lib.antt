pub mod State
pub mod Steps
pub mod Fits
pub mod Journal
pub mod Worlds
pub mod Promises
pub mod Notes
pub mod Example
