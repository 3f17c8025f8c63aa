pub mod TokenTexts
pub mod Gaps
pub mod LongestTexts
pub mod Spelled
pub mod Escapes
pub mod Lexed
pub mod Answered
pub mod TextExamples
