pub mod CallersLemmas
pub mod Changes
pub mod ListsLemmas
