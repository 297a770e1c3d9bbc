-- Definitions that only contracts of private functions cite.
pub mod WalkPlaces
pub mod RowUsers
pub mod WalkWork
pub mod WalkFrames
pub mod OneRowEach
pub mod LowestScope
pub mod NotEscapingSteps
