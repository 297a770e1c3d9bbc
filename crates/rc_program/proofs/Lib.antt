pub mod WordsLemmas
pub mod NumberLemmas
pub mod StatusLemmas
mod AnswerLemmas
mod KeyLemmas
mod RefusalLemmas
