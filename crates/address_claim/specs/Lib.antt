pub mod Claiming
pub mod Frames
pub mod Refusals
pub mod Noted
