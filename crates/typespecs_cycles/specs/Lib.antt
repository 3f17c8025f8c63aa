pub mod FirstFaults
pub mod GraphFaults
pub mod DeclarationParts
pub mod Edges
pub mod Variables
pub mod Positions
