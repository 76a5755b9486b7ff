pub mod Stores
pub mod SessionSeen
pub mod Sense
pub mod Sound
pub mod Dispatch
pub mod Step
pub mod Acts
