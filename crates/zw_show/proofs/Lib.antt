pub mod QuoteLemmas
pub mod SymbolLemmas
pub mod HeightLemmas
pub mod ShownLemmas
pub mod TellingLemmas
