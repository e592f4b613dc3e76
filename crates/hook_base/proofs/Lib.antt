pub mod GitLemmas
pub mod ListLemmas
pub mod MergedLemmas
pub mod OverlayLemmas
pub mod PlaceLemmas
pub mod SplitLemmas
