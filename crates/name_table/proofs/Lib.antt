pub mod Distinct
pub mod Lookups
pub mod CallerLemmas
