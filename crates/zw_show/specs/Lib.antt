pub mod Writes
pub mod Shown
pub mod IsTold
