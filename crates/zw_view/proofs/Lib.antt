pub mod BootLemmas
pub mod ViewLemmas
