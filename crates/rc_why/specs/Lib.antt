pub mod Pairs
pub mod Fits
pub mod CountedReturns
pub mod ReasonOf
pub mod inside
