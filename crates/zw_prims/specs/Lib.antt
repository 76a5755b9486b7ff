pub mod Marked
pub mod Receives
pub mod Passes
pub mod Does
