pub mod Logs
pub mod Repeats
