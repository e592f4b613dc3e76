pub mod CommandWords
pub mod NamedHints
pub mod NextSteps
