pub mod Parts
pub mod Ranges
pub mod Contents
pub mod KeySets
