mod SetLemmas
mod AddsLemmas
mod PathLemmas
mod ClosingLemmas
mod ChoiceLemmas
mod GraphTableLemmas
mod GraphReplay
mod FollowsSize
mod ExitsLemmas
mod ValueToPositions
mod PositionsToValue
mod BodyToPositions
mod BodyStops
mod PartLeads
mod PositionsToLoop
mod PositionsToBody
mod BodyRuns
pub mod LayoutLemmas
pub mod ValueLays
pub mod RowsLays
pub mod LabelExitLemmas
mod EarlyReturnLemmas
mod StatementLays
mod PartLays
pub mod LoopLays
mod CasesLays
mod LoopStatementLays
mod BlockLays
mod BodyReplay
