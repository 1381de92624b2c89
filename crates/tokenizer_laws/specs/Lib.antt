pub mod TokenizerLaws
