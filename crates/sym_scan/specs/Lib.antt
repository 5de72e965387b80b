pub mod Traces
pub mod Replays
pub mod Parts
pub mod Scans
