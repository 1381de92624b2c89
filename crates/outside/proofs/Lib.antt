pub mod FilesLemmas
pub mod MemFilesLemmas
pub mod KeepsLemmas
