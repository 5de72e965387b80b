-- What the contracts of checking see of the values that it goes over.
pub mod KnownValues
pub mod Places
pub mod TypedPlans
pub mod Declaring
pub mod BlockPlans
pub mod CalledTests
pub mod Showing
pub mod WholeScripts
pub mod PlanSets
pub mod CheckedScripts
