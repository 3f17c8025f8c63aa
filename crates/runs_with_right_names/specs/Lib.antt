pub mod KnownValues
pub mod SameRuns
pub mod SmallModules
