pub mod Logs
pub mod PartialLists
pub mod WatchedRounds
pub mod WatchedFiles
pub mod LastPartial
