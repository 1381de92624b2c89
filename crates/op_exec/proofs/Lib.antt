pub mod Docs
pub mod Runs
pub mod Types
pub mod Literals
pub mod Scripts
pub mod Lists
pub mod Worked
pub mod Ids
pub mod Finds
pub mod Filling
mod Contexts
