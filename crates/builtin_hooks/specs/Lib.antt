pub mod FailAnswer
pub mod GrepAnswer
pub mod GrepFaults
pub mod Lines
pub mod Search
pub mod Searchers
