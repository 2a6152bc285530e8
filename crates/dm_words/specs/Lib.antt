pub mod FailureModes
pub mod Identification
