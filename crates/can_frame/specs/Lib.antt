pub mod Fields
pub mod FrameText
pub mod FrameValue
pub mod Padding
pub mod Places
pub mod Refusals
