pub mod Sweeps
pub mod Listed
pub mod KeySetLemmas
pub mod CallerLemmas
