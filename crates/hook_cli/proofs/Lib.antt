pub mod OverHostLemmas
pub mod OverRunLemmas
pub mod PlayedLemmas
pub mod PrintingLemmas
pub mod RunPrintingLemmas
pub mod StagingLemmas
