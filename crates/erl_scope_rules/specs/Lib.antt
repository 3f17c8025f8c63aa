pub mod Occurrences
pub mod Bindings
pub mod ScopeFaults
pub mod Resolution
pub mod Earliest
