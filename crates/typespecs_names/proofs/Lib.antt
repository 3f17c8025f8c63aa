pub mod Steps
pub mod Within
pub mod LookUps
pub mod Counted
pub mod Known
