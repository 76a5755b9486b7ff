pub mod ComputingLemmas
