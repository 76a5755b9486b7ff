pub mod Node
pub mod Grown
pub mod Gives
pub mod Named
pub mod Operator
pub mod Part
pub mod Program
