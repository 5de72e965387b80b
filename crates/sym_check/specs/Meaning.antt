-- What a plan means: values, steps, groups, valid states, and how many paths a step can have.
pub mod Arithmetic
pub mod FixedValues
pub mod LineValues
pub mod Conditions
pub mod Updates
pub mod Groups
pub mod Validity
pub mod Fitting
pub mod Columns
pub mod PathBounds
