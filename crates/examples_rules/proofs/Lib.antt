pub mod FirstFaults
pub mod SingleTypes
pub mod ReadableModules
pub mod FlatExamples
pub mod FiniteInstances
pub mod ScopeExamples
pub mod TableExamples
