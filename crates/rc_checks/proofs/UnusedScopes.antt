-- Why pruning unused scopes follows its rules, what it decides, and that it keeps numbers and the tree without scopes.
pub mod StepsLemmas
pub mod UsedScopesStay
pub mod Decided
pub mod Keep
pub mod Faults
