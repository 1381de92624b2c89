pub mod OnLiterals
mod Rows
mod TableRows
mod ScriptRows
mod FileRows
pub mod TokenizerRows
pub mod PageExamples
mod DumpExamples
