pub mod Checking
pub mod ListForms
pub mod Rounds
pub mod Segments
