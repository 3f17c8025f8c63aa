pub mod EachFunction
