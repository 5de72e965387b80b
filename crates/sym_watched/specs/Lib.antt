pub mod Partials
pub mod Watching
