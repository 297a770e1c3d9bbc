-- What private functions, and lemmas, say of each other.
pub mod ListedFates
pub mod PrunedParts
pub mod OpenedScopes
pub mod PassFaults
