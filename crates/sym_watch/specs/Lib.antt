pub mod Partials
pub mod Logs
pub mod Lists
pub mod Looks
pub mod Books
pub mod Newests
