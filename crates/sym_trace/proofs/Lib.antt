pub mod Keyed
pub mod TracedRounds
pub mod TraceTexts
pub mod HiddenRounds
