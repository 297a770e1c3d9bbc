mod PathLemmas
mod MembersLemmas
pub mod SameInputsLemmas
pub mod Elements
pub mod SameLemmas
pub mod RestLemmas
pub mod MergingTells
pub mod RebuiltInvariant
pub mod MergedHolds
pub mod MergingFacts
pub mod GroupsHold
pub mod LogLemmas
pub mod DependenciesStay
pub mod EarlyReturnsStay
pub mod DissolvesFresh
pub mod DissolvedExactly
pub mod FreshLemmas
pub mod Touched
pub mod JoinsFresh
pub mod KnownLemmas
pub mod OneMerging
pub mod DecidedByRule
pub mod LaterLemmas
pub mod UsesLemmas
pub mod UseFaults
pub mod MetUsesLemmas
pub mod CurrentLemmas
pub mod DeclaredLemmas
pub mod RowsLemmas
pub mod WholeLists
pub mod ListLemmas
pub mod RulesAgree
pub mod WentLemmas
mod ByNumberLemmas
mod ToldLemmas
mod MergedInto
pub mod ExplainedByWent
pub mod WentKeeps
pub mod WentKnown
pub mod MergeLemmas
pub mod MergedClauses
pub mod ListWalk
pub mod UnmergedLists
pub mod EmptyLists
mod Examples
mod NameSetLemmas
mod UseWalk
