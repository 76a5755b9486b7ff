pub mod Seen
pub mod Streams
pub mod Request
pub mod Script
pub mod Answer
