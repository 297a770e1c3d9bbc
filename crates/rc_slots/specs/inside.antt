-- What private functions say of each other.
pub mod ScopeSteps
pub mod CachedSlots
