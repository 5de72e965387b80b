pub mod Passed
pub mod Saving
