pub mod Escape
pub mod Inert
pub mod Seen
