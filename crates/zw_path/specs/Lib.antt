pub mod BadPath
pub mod Shape
pub mod Front
