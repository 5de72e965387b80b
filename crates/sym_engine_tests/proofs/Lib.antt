pub mod Noting
pub mod LawfulFit
