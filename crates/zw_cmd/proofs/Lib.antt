pub mod PartLemmas
pub mod NumberLemmas
pub mod RequestLemmas
pub mod ScriptLemmas
pub mod SkipLemmas
pub mod TakenLemmas
pub mod StreamLemmas
pub mod AnswerLemmas
