-- Lemmas on states: orderly and lawful ones.
pub mod Sums
pub mod Phases
pub mod Arrivals
pub mod Lawful
pub mod Opening
pub mod Chunks
pub mod Agreeing
