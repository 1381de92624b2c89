pub mod Docs
pub mod Scripts
pub mod Ids
