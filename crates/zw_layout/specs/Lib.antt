pub mod Progress
pub mod Deepest
pub mod Expects
pub mod Above
