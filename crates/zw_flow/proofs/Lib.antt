pub mod FollowLemmas
pub mod EnterLemmas
pub mod TurnLemmas
