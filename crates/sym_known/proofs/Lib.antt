pub mod LeftAlone
pub mod KnownCells
pub mod KnownSteps
pub mod Closed
pub mod Equal
