pub mod Items
pub mod Limits
pub mod Reading
pub mod RecordLemmas
pub mod Records
