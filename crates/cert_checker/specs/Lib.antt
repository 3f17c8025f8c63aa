pub mod Constraints
pub mod Failures
pub mod FlatTypes
pub mod SpecTables
pub mod Judging
pub mod Examples
