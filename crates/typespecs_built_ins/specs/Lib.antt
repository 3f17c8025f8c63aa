pub mod PlainTypes
