mod FlowWalks
pub mod Keys
mod Nodes
mod Parts
mod Tables
