pub mod CheckText
pub mod Reading
pub mod SkipList
pub mod TryFaults
pub mod TryOver
