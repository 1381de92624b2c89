pub mod Lists
pub mod Reading
pub mod Parts
pub mod Going
pub mod Slots
pub mod Rounds
pub mod Windows
pub mod Batches
