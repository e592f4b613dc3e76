pub mod Cautious
pub mod Harmless
pub mod Options
pub mod SplitFiles
pub mod TableRules
pub mod Tools
