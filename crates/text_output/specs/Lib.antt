pub mod OutputLemmas
pub mod Outputs
pub mod QuotedPaths
