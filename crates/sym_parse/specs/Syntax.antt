-- The grammar: which lexemes are which tree, one case per line. It is this project's profile.
pub mod Expressions
pub mod Statements
pub mod Declarations
pub mod Scripts
