pub mod Heights
pub mod Tokens
pub mod Parts
pub mod Views
pub mod Passed
pub mod Outside
pub mod Answers
