pub mod Bindings
pub mod Staying
