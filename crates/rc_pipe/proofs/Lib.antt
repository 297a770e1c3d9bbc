mod FatesLemmas
mod UnopenedScopes
mod OutsideLemmas
mod CausesLemmas
mod BlocksLemmas
pub mod EnvironmentStays
mod RunsElsewhere
mod EventsStay
pub mod PassesLemmas
mod ScopelessRules
mod FlowEnds
mod NoScopes
mod ScopelessPasses
mod FatesHold
mod FreshHolds
mod ErasedBlocks
mod LabelBlocks
mod SpelledContents
mod RoomHolds
mod EarlyReturnsFit
mod OneAnswer
