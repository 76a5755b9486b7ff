pub mod BadPathLemmas
pub mod MatchingLemmas
pub mod ShapeLemmas
