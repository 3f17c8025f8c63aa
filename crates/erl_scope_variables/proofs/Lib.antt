pub mod PartLevels
pub mod WalkLaws
pub mod ScopeSteps
pub mod RowSteps
pub mod ExprSteps
pub mod ModuleSteps
