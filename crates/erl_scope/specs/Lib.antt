pub mod Outcomes
pub mod FaultPlaces
