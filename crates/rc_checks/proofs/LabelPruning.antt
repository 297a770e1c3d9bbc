-- Why label pruning follows its rule, and that it keeps runs, numbers and scope blocks.
pub mod PruningLemmas
pub mod FrontPruned
pub mod Depths
pub mod Opened
pub mod Judged
pub mod WalkLemmas
pub mod Keep
pub mod TargetsLemmas
pub mod LoopsNamed
pub mod PlainPruned
pub mod PlainLoops
pub mod PlainKeepsRuns
pub mod KeepRuns
