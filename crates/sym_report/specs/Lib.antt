pub mod ReportRows
pub mod Forms
pub mod ValueTexts
pub mod Tables
pub mod Csvs
pub mod Pairs
pub mod Pages
pub mod Appending
