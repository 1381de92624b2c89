pub mod PieceLemmas
pub mod StoreLemmas
pub mod ListLemmas
pub mod KindLemmas
pub mod Lookups
pub mod Literals
pub mod RecordLemmas
