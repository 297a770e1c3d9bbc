-- Why the check of break targets is right.
pub mod MetLemmas
pub mod CheckLemmas
pub mod NoJumpIsMet
