pub mod RoundRuns
pub mod Stretched
pub mod LedRounds
