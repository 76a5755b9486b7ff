pub mod MessageLemmas
pub mod ErrorKindLaws
