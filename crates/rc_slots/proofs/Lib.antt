pub mod WalkLemmas
pub mod NumberingLemmas
pub mod OwnerLemmas
pub mod KnownScopes
pub mod ItemLemmas
pub mod SlotWriteLemmas
