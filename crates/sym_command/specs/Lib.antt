pub mod CommandLines
pub mod Commands
pub mod Numbers
pub mod Words
pub mod Working
