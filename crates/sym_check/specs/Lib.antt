pub mod Plan
pub mod Meaning
pub mod Rules
pub mod Breaks
pub mod Elaborate
pub mod Checking
