pub mod Names
pub mod Fetching
pub mod Helping
pub mod Teams
