pub mod Commands
pub mod Report
pub mod Check
pub mod Tool
