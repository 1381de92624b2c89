pub mod Renamed
pub mod Known
pub mod Elements
pub mod Bindings
pub mod Staying
