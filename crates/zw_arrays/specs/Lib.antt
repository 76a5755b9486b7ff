pub mod Item
pub mod Answer
pub mod Sum
pub mod Joined
