pub mod ListLemmas
pub mod KnownLemmas
pub mod HeldLemmas
pub mod JoinLemmas
