pub mod Turns
pub mod Depth
