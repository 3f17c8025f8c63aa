pub mod ScanLaws
pub mod PatternEnds
pub mod PatternLaws
pub mod PatternLevels
pub mod PartSteps
pub mod WholePatterns
