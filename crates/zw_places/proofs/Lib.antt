pub mod TreeLemmas
pub mod TwiceLemmas
pub mod ParameterLemmas
pub mod LoopLemmas
pub mod WalkLemmas
