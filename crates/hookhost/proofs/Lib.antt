pub mod ColorLemmas
pub mod FileTreeLemmas
pub mod LinkLemmas
pub mod NameLemmas
pub mod StopLemmas
pub mod UnstagedWordLemmas
