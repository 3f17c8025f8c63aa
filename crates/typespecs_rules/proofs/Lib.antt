pub mod TypeRuleLaws
pub mod VariableLaws
pub mod TypeExamples
pub mod ModuleExamples
pub mod RightTypes
