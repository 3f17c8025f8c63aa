mod FaultOrder
mod FirstOfTwo
mod FirstFaults
pub mod OneFirst
