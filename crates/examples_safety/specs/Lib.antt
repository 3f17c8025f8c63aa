pub mod SmallSafety
