pub mod Bytes
pub mod Grammar
pub mod Line
pub mod Numbers
pub mod Spelled
pub mod Station
pub mod Reasons
