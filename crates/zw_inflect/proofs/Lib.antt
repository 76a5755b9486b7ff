pub mod OverridesLemmas
pub mod GemLemmas
