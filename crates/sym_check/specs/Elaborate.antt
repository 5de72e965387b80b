-- The plan, or the first broken rule, by trying the rules in order: what the code is proved
-- against.
pub mod Expressions
pub mod Statements
pub mod Declarations
pub mod Reports
