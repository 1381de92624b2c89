pub mod View
pub mod Order
pub mod Parts
pub mod Matches
pub mod Held
pub mod Prepared
pub mod Written
