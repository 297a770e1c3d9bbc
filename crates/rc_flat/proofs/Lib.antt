mod KeyLemmas
mod QueueLemmas
mod FoundLemmas
mod FromLast
pub mod Again
pub mod NeverNull
pub mod TerminalsReadBack
pub mod GraphReadsBack
pub mod EnvironmentReadsBack
pub mod FlatReadsBack
pub mod Waiting
pub mod ValuesAssemble
pub mod StatementsAssemble
pub mod TablesAssemble
mod StatementsRead
pub mod TablesRead
