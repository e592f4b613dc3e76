pub mod DueCut
pub mod DueCutLemmas
pub mod LazyDisk
