-- The steps of the pass, by which its private functions are specified.
pub mod EarlyReturnSteps
pub mod Growing
