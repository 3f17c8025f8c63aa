pub mod StableOrders
pub mod KeysCompared
pub mod PlacedFields
