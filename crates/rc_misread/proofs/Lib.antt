pub mod MisreadLemmas
