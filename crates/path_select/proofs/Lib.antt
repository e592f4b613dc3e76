pub mod DefaultPatternLemmas
pub mod FoundLemmas
pub mod IndexLemmas
pub mod KeptLemmas
pub mod Kit
pub mod PatternLemmas
pub mod SelectionLemmas
pub mod TypeLemmas
