pub mod Log
pub mod Parted
pub mod Sides
pub use Rattle.crossbeam_utils.specs.Register
