pub mod CallersLemmas
pub mod DifferenceLemmas
pub mod EntriesLemmas
pub mod FactsLemmas
pub mod MeaningLemmas
pub mod Merged
pub mod MergedLemmas
pub mod WithLemmas
