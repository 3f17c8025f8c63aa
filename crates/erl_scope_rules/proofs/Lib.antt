pub mod OccurrenceLaws
pub mod FaultLaws
pub mod OccurrenceLists
pub mod SeenMarks
pub mod EarliestLaws
