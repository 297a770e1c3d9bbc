mod FaultNames
mod BreakTargets
mod LabelPruning
pub mod MembershipCheck
pub mod ScopeBlocks
pub mod UnusedScopes
