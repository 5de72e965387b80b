pub mod Chains
pub mod Comparing
