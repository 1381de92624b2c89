pub mod Text
pub mod Letters
pub mod Words
pub mod Names
pub mod Attributes
pub mod Sums
pub mod Operations
pub mod Numbers
