pub mod FaultRefusals
pub mod Memory
pub mod Changes
