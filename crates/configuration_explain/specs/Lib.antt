pub mod Explains
pub mod KnownWords
