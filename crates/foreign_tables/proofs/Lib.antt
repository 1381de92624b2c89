pub mod Literals
pub mod Reading
pub mod Firsts
