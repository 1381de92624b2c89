pub mod Rules
pub mod Counting
pub mod Boards
pub mod Crossing
