pub mod SmallFaults
pub mod SmallFunctions
pub mod SmallScopes
pub mod SmallTables
