pub mod Literals
pub mod Steps
pub mod Scripts
mod WorkedPages
