pub mod Comparing
pub mod Showing
