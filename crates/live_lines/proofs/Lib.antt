mod FaultLemmas
mod OneMore
mod OwnLemmas
mod PlayingLemmas
mod Waking
pub mod Crossing
