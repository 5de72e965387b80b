-- The plan of a script as plain data, its ranges and kinds, and which plans are well formed.
pub mod FixedPlans
pub mod LinePlans
pub mod CondPlans
pub mod DoPlans
pub mod ShowPlans
pub mod ScriptPlans
pub mod Ranges
pub mod CellKinds
pub mod WellFormed
