pub mod SettledLaws
pub mod LoopLaws
