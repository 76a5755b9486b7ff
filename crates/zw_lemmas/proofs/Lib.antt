pub mod OptionLemmas
pub mod ListLemmas
pub mod PlaceLemmas
pub mod AnyLemmas
pub mod FindLemmas
pub mod TextLemmas
