mod BlockSteps
mod Contents
mod Decoded
mod FaultLines
mod FlowScans
pub mod FlowSeams
pub mod FlowTokens
mod Held
mod LastValues
mod KeyQuoting
mod Left
mod Literal
pub mod QuotedSeams
mod Passes
mod QuotedSteps
mod QuotedTrailing
mod Quoting
mod RawLines
mod Saying
mod Scans
mod Trailing
mod Walks
mod Written
