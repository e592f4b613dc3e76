pub mod Candidates
pub mod Chosen
pub mod KeptTags
pub mod PatternFaults
pub mod Patterns
pub mod Regexes
pub mod Selection
pub mod SelectionLaws
