pub mod FaultPlaces
pub mod TextFaults
pub mod FirstOfTwo
pub mod SpecParts
pub mod Names
pub mod Reads
pub mod CyclicBounds
