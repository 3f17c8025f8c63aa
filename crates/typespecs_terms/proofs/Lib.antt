pub mod NamedTerms
pub mod Collected
pub mod MapEntries
pub mod GivenFields
pub mod FormTerms
