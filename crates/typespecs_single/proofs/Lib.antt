pub mod NewNameLaws
pub mod SeenNames
pub mod Fields
pub mod DeclaredTuples
pub mod TermsBehind
