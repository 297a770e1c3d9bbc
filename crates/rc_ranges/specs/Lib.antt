pub mod Ranges
pub mod inside
