pub mod AllLemmas
pub mod NoThrow
pub mod GraphLemmas
pub mod SuccessorsLemmas
pub mod FramesLemmas
pub mod JumpsLemmas
pub mod RowsLemmas
pub mod SetIds
pub mod LastRowLemmas
pub mod FlattenedRuns
pub mod OneArm
pub mod OneValue
pub mod ShortArmLemmas
pub mod Covers
pub mod ValueRowsToGraph
pub mod SilentArmToGraph
pub mod NestedToGraph
pub mod NestedRowToGraph
pub mod ValueToGraph
pub mod AliveBlocks
pub mod AfterParts
pub mod RowToGraph
pub mod JumpToGraph
pub mod TryToGraph
pub mod KeptCases
pub mod CasesToGraph
pub mod LoopToGraph
pub mod TreeOfLemmas
pub mod EveryBlockIsPlain
pub mod OneTree
pub mod RunSize
pub mod RowRuns
pub mod ShortEnds
pub mod HandlerLemmas
pub mod Throws
pub mod GraphToSilentArm
pub mod Passes
pub mod GraphToNested
pub mod GraphToValue
pub mod Leads
pub mod GraphToLoop
pub mod GraphToCases
pub mod GraphToStatement
pub mod ReturningLemmas
pub mod GraphToBody
pub mod BodyToGraph
pub mod NamesOutsideLemmas
mod NoRowNamed
mod BlockNames
mod PlainNames
mod SpelledValueNames
pub mod SpelledNames
pub mod SpelledInTables
pub mod PlainLists
pub mod LabelLemmas
pub mod KeepsRunsLemmas
pub mod LoopsKeepRuns
pub mod SwitchKeepsRuns
pub mod ErasedPartLemmas
pub mod EraseLemmas
pub mod ErasedTreeLemmas
mod ErasedValueRuns
pub mod ErasedRuns
mod Examples
mod ValueExamples
mod TryExamples
