pub mod Running
pub mod Pairs
pub mod Shown
pub mod Lending
