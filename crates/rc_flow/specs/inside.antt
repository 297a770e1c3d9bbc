-- What private functions say of each other.
pub mod Recording
pub mod Spread
pub mod Told
pub mod PartFlows
pub mod Pruned
pub mod Marks
pub mod DroppingSteps
