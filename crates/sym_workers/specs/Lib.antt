pub mod RoundRuns
pub mod Pieces
pub mod Leading
