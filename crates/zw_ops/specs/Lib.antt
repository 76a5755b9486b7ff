pub mod Fault
pub mod Arguments
pub mod Written
pub mod Open
pub mod Line
pub mod Choice
