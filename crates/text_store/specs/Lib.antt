pub mod Pieces
pub mod Stores
pub mod Lists
pub mod Kinds
pub mod Views
pub mod Records
