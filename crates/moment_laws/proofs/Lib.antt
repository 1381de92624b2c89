pub mod Through
pub mod Served
