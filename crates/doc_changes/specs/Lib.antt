pub mod Fragments
pub mod Changes
pub mod Logs
