pub mod FixesText
pub mod LogText
pub mod ShowText
pub mod StatusText
pub mod StatusWalk
