-- The first broken rule, with its place: one case for each cause.
pub mod Expressions
pub mod Statements
pub mod Declarations
pub mod Reports
