pub mod KnownBytes
pub mod StatementCount
pub mod WrittenLines
mod BlankLemmas
mod SentLemmas
