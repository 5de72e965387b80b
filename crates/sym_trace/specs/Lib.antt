pub mod TraceReports
pub mod Tracing
pub mod Showing
