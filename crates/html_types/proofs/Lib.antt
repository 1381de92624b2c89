pub mod TextLemmas
pub mod CharLemmas
pub mod CaseLemmas
pub mod WordLemmas
pub mod ListLemmas
pub mod Counts
pub mod AttributeLemmas
mod Examples
pub mod SumLemmas
