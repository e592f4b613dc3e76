pub mod PathOrderLemmas
pub mod StatusLemmas
pub mod TextLemmas
