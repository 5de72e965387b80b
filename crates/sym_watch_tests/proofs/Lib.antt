mod Entries
mod SeenLogs
