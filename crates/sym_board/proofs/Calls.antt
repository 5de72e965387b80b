-- Lemmas for the bodies of single calls.
pub mod Emptied
pub mod Climbing
pub mod Gathering
pub mod Closing
