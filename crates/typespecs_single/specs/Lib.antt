pub mod NewNames
pub mod TupleParts
