pub mod CheckLines
pub mod Messages
pub mod Refusals
pub mod Statuses
pub mod Summaries
pub mod Telling
