pub mod FieldOrder
