-- Which dependencies the pass leaves, and that every number stays in its table.
pub mod KnownLemmas
pub mod StayLemmas
pub mod PrunedLemmas
