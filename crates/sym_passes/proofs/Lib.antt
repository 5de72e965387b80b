pub mod AppliedRuns
pub mod Folds
pub mod Summed
