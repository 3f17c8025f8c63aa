pub mod HeldLaws
pub mod NameLaws
pub mod OccurrenceLaws
pub mod ClauseLaws
pub mod StandingLaws
pub mod ArrowLaws
