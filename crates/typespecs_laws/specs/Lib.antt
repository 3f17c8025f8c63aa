pub mod Occurring
pub mod SmallInstances
pub mod WellMade
