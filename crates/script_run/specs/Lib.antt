pub mod Commands
pub mod Lines
pub mod Moves
pub mod Queries
pub mod Sinks
pub mod Steps
pub mod Telling
pub mod UnitSteps
