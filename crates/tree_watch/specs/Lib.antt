pub mod Notes
pub mod Rule
pub mod Boards
pub mod Seeing
pub mod Counting
