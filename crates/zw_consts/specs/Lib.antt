pub mod Table
pub mod Ancestor
pub mod Line
pub mod LookUp
