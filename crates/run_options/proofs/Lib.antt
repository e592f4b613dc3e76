pub mod ToolLemmas
