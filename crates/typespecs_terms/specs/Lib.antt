pub mod Tables
pub mod Collecting
pub mod Entries
pub mod Parts
