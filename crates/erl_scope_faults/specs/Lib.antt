pub mod PartFaults
pub mod Tables
pub mod Bounds
pub mod FormFaults
