pub mod PageLaws
pub mod DecoderLemmas
