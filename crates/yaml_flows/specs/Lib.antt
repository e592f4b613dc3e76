pub mod Faults
pub mod FlowLaws
pub mod Flows
pub mod Keys
pub mod Views
