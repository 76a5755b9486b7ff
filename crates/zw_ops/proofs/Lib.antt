pub mod LineLemmas
pub mod OpenLemmas
pub mod VariableLemmas
pub mod ChoiceLemmas
pub mod FoundLemmas
pub mod CallLemmas
