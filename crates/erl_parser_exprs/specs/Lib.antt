pub mod Operations
pub mod Waiting
pub mod GuardNames
pub mod Expressions
pub mod Levels
pub mod Answers
pub mod SmallTexts
