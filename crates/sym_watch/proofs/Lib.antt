mod Examples
pub mod Prefixes
pub mod Rising
pub mod Entries
pub mod LookedLemmas
pub mod Rules
pub mod Equality
