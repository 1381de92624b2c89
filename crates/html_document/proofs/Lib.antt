mod Pieces
mod Lists
pub mod Literals
