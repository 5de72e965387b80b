-- What is read from the beginning of a list of lexemes, and where reading stops: one function per
-- line of the grammar. Every choice is decided by the next token.
pub mod Expressions
pub mod Statements
pub mod Declarations
pub mod Scripts
pub mod Levels
