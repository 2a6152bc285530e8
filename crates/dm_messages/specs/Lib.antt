pub mod View
pub mod Laws
pub mod Refusals
pub mod Tolerant
