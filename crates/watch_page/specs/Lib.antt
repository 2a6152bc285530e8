pub mod Colours
pub mod Listing
pub mod Standing
