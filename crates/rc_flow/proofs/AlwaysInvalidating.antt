-- Why the pass on scopes that always invalidate follows its rules, which scopes it leaves, and what it keeps.
pub mod ValueStepsLemmas
pub mod GrowingSets
pub mod EndedScopes
pub mod MarksLemmas
pub mod RulesLemmas
pub mod StayingBlocks
pub mod LeftScopes
pub mod DecidedScopes
pub mod CausesLemmas
