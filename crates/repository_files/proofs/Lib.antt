pub mod Kit
pub mod UnmarkedLogs
