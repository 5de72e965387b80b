mod MessageExamples
pub mod Rows
mod SummaryExamples
pub mod TellingLemmas
pub mod TotalsMore
