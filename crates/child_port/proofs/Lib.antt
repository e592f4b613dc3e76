pub mod IndexLemmas
pub mod SearchLemmas
