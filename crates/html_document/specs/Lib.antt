pub mod Stage
pub mod Fed
pub mod Fragments
pub mod Flat
