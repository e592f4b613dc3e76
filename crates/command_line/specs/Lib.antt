pub mod CommandLine
pub mod HelpLengths
pub mod MessageWords
