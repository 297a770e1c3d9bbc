-- Why the pass on scope blocks that compute nothing memoized follows its rules, and what it keeps.
pub mod StepsLemmas
pub mod KeptParts
pub mod LeftScopes
pub mod NeededOutputs
pub mod Decided
pub mod FlagsAlone
pub mod EscapeFaults
