pub mod Alike
pub mod Rebasing
pub mod OneResult
pub mod DeskLaws
pub mod CoreLaws
pub mod Bounds
pub mod Replaying
