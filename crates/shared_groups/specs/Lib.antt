pub mod Outgoing
pub mod Parts
pub mod Sending
pub mod Sharing
