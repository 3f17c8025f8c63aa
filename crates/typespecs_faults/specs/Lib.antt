pub mod Tables
pub mod NameSets
pub mod Noted
pub mod Fields
pub mod Levels
pub mod Specs
pub mod Behind
pub mod SeenKeys
