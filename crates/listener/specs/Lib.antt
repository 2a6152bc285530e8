pub mod ListenerValue
pub mod ListenerSteps
pub mod SentEntries
pub mod PathTold
pub mod Paced
pub mod NewestSent
pub mod Broken
pub mod ReadEntries
