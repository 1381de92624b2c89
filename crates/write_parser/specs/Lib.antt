pub mod Parsing
pub mod Writing
pub mod Steps
pub mod Made
