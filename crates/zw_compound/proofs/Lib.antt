pub mod NamedLemmas
pub mod ElseLemmas
pub mod OperatorLemmas
pub mod KnownLemmas
pub mod PartLemmas
