pub mod Place
pub mod Check
pub mod Twice
pub mod Tells
pub mod Walk
