pub mod Ear
pub mod Losses
pub mod OpenOrders
pub mod Signs
pub mod Turns
pub mod Working
pub mod Positive
