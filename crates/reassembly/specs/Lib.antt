pub mod Partials
pub mod TableLaws
pub mod Tables
pub mod Pairs
pub mod Pacing
pub mod Times
pub mod Between
