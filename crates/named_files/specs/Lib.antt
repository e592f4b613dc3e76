pub mod NamedPaths
pub mod Words
