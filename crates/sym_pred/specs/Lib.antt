pub mod Answers
pub mod Differences
pub mod Facts
pub mod HoldForms
pub mod Literals
pub mod Meaning
pub mod Merges
pub mod Places
