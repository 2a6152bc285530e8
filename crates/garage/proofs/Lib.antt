pub mod Posting
pub mod Posts
pub mod Standing
mod Passing
pub mod Headline
mod Lists
mod CarryLemmas
mod InTurn
mod InHand
mod OrderLemmas
mod OpeningLemmas
mod BeginLemmas
mod Lines
pub mod Lent
mod Listed
pub mod Events
pub mod Traffics
pub mod Pieces
pub mod SeatKept
pub mod Crew
pub mod LastFrames
pub mod HearLemmas
pub mod ReadLemmas
pub mod RoundLemmas
