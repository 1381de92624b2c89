pub mod Marks
pub mod NameRow
pub mod Skipping
