pub mod Entities
pub mod Statuses
pub mod Rooms
pub mod Calls
pub mod Runs
