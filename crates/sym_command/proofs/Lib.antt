pub mod AskedExamples
pub mod Bounds
mod CommandExamples
pub mod Handed
pub mod Matching
pub mod Numerals
