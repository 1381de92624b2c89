pub mod Halting
pub mod Asking
