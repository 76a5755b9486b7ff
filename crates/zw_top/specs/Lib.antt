pub mod Refusal
pub mod Script
pub mod Session
pub mod Reading
pub mod Start
pub mod Reply
pub mod Stream
pub mod Run
