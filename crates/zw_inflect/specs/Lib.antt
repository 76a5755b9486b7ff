pub mod Overrides
pub mod Gem
pub mod Inflector
pub mod Layout
