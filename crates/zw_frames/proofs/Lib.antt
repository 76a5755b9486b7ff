pub mod LocalLemmas
pub mod FrameLemmas
