pub mod Parsed
pub mod Apart
mod Completes
