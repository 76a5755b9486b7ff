pub mod LineStepLemmas
pub mod DrawnLemmas
pub mod WholeLineLemmas
pub mod NextLinesLemmas
