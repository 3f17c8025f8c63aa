pub mod Records
pub mod Settled
