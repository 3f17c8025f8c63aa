pub mod Held
pub mod HeldValues
pub mod HeldMatches
pub mod RightParts
pub mod Seen
pub mod FunNumbers
pub mod RunSetting
pub mod SameParts
pub mod SameNodes
pub mod SameClauses
pub mod SameExpressions
pub mod SameConstructs
pub mod SameSteps
pub mod SameRuns
pub mod Applied
mod KnownExamples
