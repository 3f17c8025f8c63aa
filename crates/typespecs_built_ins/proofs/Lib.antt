pub mod TypesByName
