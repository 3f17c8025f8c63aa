pub mod Lines
pub mod Operators
