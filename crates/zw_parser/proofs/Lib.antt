pub mod ParsedLemmas
pub mod NamedLemmas
pub mod HeldLemmas
