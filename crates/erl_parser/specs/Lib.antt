pub mod Forms
pub mod Views
pub mod AttributeNames
pub mod Answers
