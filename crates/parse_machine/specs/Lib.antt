pub mod Ends
pub mod Machine
pub mod Rounds
pub mod Runs
pub mod Through
