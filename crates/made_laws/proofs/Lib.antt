pub mod MadePages
