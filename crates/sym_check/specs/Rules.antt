-- Scripts that break no rule, with their plans: one case for each rule.
pub mod Scopes
pub mod Typing
pub mod Statements
pub mod InOrder
pub mod Declarations
pub mod Reports
pub mod Scripts
pub mod Operators
