pub mod LastLemmas
pub mod NestingLemmas
pub mod ProgressLemmas
pub mod DeepestLemmas
pub mod ExpectedLemmas
