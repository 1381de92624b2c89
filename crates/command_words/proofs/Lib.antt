pub mod GrammarLemmas
pub mod WordsExamples
