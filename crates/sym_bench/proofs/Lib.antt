pub mod ChainLemmas
pub mod ComparingLemmas
