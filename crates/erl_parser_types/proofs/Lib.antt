pub mod TypeTexts
pub mod TypeParts
pub mod TypeForms
pub mod TypeRight
pub mod TypeEnds
pub mod TypeAgain
pub mod WholeTypes
mod TypeLevels
