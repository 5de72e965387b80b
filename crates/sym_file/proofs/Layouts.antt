pub mod Alike
pub mod DeclarationsAlike
pub mod ExpressionsAlike
pub mod PrintedAlike
pub mod ReportsAlike
pub mod ScriptsAlike
pub mod StatementsAlike
