pub mod Joining
pub mod Places
pub mod Remembering
pub mod Appearing
pub mod KeepingCodes
pub mod Going
pub mod Ranging
pub mod Placing
