pub mod Scan
pub mod Patterns
pub mod Views
pub mod Answers
