-- Lemmas on the tree.
pub mod Laws
pub mod Seeking
pub mod Spans
pub mod Numbered
