pub mod ItemLemmas
pub mod EqualityLemmas
pub mod ArrayLemmas
pub mod BuiltInLemmas
pub mod JoinLemmas
