pub mod ParsingLemmas
pub mod BeginLemmas
pub mod StatementLemmas
pub mod RestLemmas
pub mod NestingLemmas
pub mod LevelLemmas
pub mod MadeLemmas
