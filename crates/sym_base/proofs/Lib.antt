mod Appending
pub mod ExprLists
mod Files
mod LawfulExamples
pub mod Numbers
mod Reading
mod SmallListLemmas
pub mod ValueLemmas
