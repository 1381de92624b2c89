pub mod Pairs
pub mod Nearer
pub mod Interleaving
pub mod Files
