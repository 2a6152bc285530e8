pub mod Exact
pub mod Index
