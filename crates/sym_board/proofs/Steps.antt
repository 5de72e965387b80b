-- Lemmas on steps: each keeps states orderly, and each operation on a word is one.
pub mod Growing
pub mod Seating
pub mod Keeping
pub mod Given
pub mod Taken
pub mod Allowed
pub mod Operations
