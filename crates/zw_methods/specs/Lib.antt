pub mod Methods
pub mod Change
pub mod Line
pub mod Telling
