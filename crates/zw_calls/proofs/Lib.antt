pub mod FaultLemmas
pub mod TestLemmas
pub mod MakingLemmas
pub mod PerformLemmas
pub mod CallLemmas
pub mod NamedLemmas
