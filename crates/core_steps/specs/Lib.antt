pub mod Fetches
pub mod Journals
pub mod Sides
pub mod Acting
pub mod States
pub mod Tallies
pub mod Working
pub mod Changing
