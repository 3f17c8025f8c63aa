pub mod Readable
pub mod SafeTexts
