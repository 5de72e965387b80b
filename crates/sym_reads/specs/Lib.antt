pub mod Naming
pub mod NamedFields
pub mod Agreement
