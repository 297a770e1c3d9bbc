-- Read in this order: the walk over a record, the sets between which its result lies, the memoized names, which scope
-- blocks give way, what the pass has met, the flags, what a record may lack, and the tree without those blocks.
pub mod MemoWalk
pub mod MemoBounds
pub mod MemoSet
pub mod Outputs
pub mod Met
pub mod Flags
pub mod WholeRecord
pub mod NotEscaping
pub mod inside
