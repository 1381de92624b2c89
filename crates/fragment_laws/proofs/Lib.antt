pub mod Apart
pub mod Exchange
pub mod Sound
pub mod Shifts
pub mod Pairs
pub mod Children
pub mod Sets
pub mod Unnamed
mod Sorts
mod Visits
mod Whole
