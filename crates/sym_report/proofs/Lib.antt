pub mod Joining
pub mod Choosing
pub mod Writers
pub mod Under
pub mod Reports
pub mod Examples
pub mod FormExamples
