pub mod Bits
pub mod CallersLemmas
pub mod Sets
