pub mod NamedLemmas
pub mod UpdateLemmas
pub mod PartLemmas
pub mod DepthLemmas
