pub mod Newer
pub mod UnderNames
pub mod RowClaims
pub mod RowLemmas
