pub mod ArgLemmas
pub mod FeedLemmas
pub mod JoinLemmas
pub mod Kit
pub mod LineLemmas
pub mod PlaceLemmas
pub mod SearchLemmas
pub mod TrimLemmas
