pub mod CopyLemmas
pub mod RowLemmas
