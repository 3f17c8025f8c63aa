pub mod State
pub mod Between
pub mod Named
pub mod Stored
pub mod Indexed
