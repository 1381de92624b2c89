pub mod Push
pub mod Kinds
pub mod Adopted
pub mod Texts
pub mod ForeignEnds
pub mod Pairs
pub mod AtOnce
pub mod Latest
