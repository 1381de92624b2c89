pub mod Laws
pub mod Unnamed
pub mod Visits
pub mod Whole
