pub mod Answers
pub mod Sides
pub mod Parts
pub mod Seats
pub mod Running
