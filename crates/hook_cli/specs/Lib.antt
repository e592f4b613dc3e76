pub mod CommandOver
pub mod MemoryText
pub mod Printing
pub mod RefusalText
pub mod RunText
pub mod StagingOver
