pub mod Fault
pub mod Root
pub mod Callback
pub mod Config
