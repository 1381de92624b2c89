pub mod Batches
pub mod Verdict
pub mod Settling
pub mod Desk
pub mod Core
pub mod StandsFor
pub mod Journal
