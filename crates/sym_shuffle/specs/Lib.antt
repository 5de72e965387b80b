pub mod Shuffling
pub mod Packing
pub mod Begun
pub mod Settled
pub mod Dealing
pub mod Parts
pub mod Folding
pub mod Places
