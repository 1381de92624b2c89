pub mod Naming
pub mod Giving
pub mod AllTaken
pub mod Crossing
pub mod Teams
