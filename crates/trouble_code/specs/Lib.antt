pub mod Code
pub mod DtcRefusals
pub mod LampBytes
pub mod Numbers
