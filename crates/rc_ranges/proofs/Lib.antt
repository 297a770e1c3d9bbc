mod WithinLemmas
mod JoinedLemmas
mod AscendingLemmas
mod OrderLemmas
mod LeftLemmas
mod GivenLemmas
