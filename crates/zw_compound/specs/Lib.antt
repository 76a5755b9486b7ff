pub mod Arm
pub mod Method
pub mod Part
