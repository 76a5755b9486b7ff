pub mod Fault
pub mod Value
pub mod Key
pub mod Root
pub mod Inflection
pub mod Callback
pub mod Configuration
