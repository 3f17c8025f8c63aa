pub mod HeldPairs
pub mod Written
