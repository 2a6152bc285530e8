pub mod AsciiLemmas
pub mod UnusedLemmas
