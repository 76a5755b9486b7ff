pub mod NamesLemmas
pub mod CPathLemmas
