pub mod Along
pub mod RunLaws
