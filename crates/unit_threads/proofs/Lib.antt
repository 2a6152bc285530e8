mod Turning
mod Comparing
pub mod Reading
mod Boxes
mod Going
mod Writing
