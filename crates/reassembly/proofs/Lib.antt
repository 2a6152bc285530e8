pub mod PartialLemmas
pub mod TableLemmas
mod Paced
