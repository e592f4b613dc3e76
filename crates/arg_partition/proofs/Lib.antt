pub mod PartLemmas
pub mod RoomLemmas
pub mod WordLemmas
