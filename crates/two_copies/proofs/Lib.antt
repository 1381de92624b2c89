pub mod LogKept
pub mod PartFields
pub mod PartSteps
mod Readers
pub mod SidesKept
mod Tails
