mod ListLemmas
mod SetLemmas
mod SpreadSteps
mod ReachedLemmas
mod SpreadLemmas
mod ToldLemmas
mod RecordingLemmas
mod TakenLemmas
mod PositionLemmas
mod FlowsLemmas
mod ValuesLemmas
mod RecordedFaults
mod ReactiveDependencies
pub mod AlwaysInvalidating
