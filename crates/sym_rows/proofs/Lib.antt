pub mod OnePass
pub mod Parts
pub mod Walks
pub mod Slices
pub mod BlockCounts
pub mod Ends
pub mod PieceReads
