pub mod Spelling
pub mod Grammar
pub mod Flat
pub mod FlatSpecs
pub mod FlatNames
pub mod Calls
pub mod FlatModules
pub mod SmallModules
