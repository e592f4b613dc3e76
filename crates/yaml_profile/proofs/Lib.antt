pub mod Cuts
mod FlowOfWords
mod FlowParts
pub mod Flows
pub mod Holds
mod LineWeights
mod LinesOfEntries
mod LinesOfWords
pub mod Lists
mod Moved
pub mod Nodes
mod SayingTexts
pub mod Tables
pub mod Texts
mod TextsOfEntries
mod TextsOfWords
pub mod TextsWithin
pub mod Turns
mod UniqueKeys
mod Weights
mod Words
