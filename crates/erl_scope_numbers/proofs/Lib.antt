pub mod Places
pub mod Keys
pub mod Steps
pub mod OfModules
pub mod StandingNumbers
