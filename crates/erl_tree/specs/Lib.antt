pub mod Lists
pub mod Lexis
pub mod Limits
pub mod Profile
pub mod Faults
pub mod Functions
pub mod SmallText
