pub mod CommandLemmas
pub mod Kit
pub mod MessageLemmas
pub mod ValueLemmas
