pub mod BootLemmas
pub mod ClaimLemmas
pub mod SortedLemmas
