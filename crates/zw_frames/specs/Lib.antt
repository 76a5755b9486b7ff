pub mod Locals
pub mod LocalsSeen
pub mod Frame
