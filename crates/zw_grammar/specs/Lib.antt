pub mod Variable
pub mod Part
pub mod Bodies
pub mod ReadsAs
