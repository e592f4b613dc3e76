pub mod AskLemmas
pub mod KnownReadsLemmas
pub mod LineLemmas
pub mod ReadingLemmas
pub mod SkipLemmas
