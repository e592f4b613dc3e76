pub mod ChangedLemmas
pub mod CutLemmas
pub mod FollowLemmas
pub mod ReasonLemmas
pub mod TagLemmas
pub mod WordLemmas
