pub mod Literals
pub mod Texts
pub mod Lowered
