pub mod Names
pub mod Held
pub mod Occurrences
pub mod Clause
pub mod Arrows
