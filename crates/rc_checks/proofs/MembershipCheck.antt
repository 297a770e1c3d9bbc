-- Why the membership check is right.
pub mod OpenScopesLemmas
pub mod WalkLemmas
pub mod CheckLemmas
pub mod UnknownOperands
pub mod UnknownVisits
pub mod WithoutBlocks
pub mod RangeLemmas
pub mod ContextLemmas
