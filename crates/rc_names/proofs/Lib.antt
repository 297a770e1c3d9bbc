pub mod NumbersLemmas
pub mod KeyedLemmas
pub mod BitRowLemmas
