pub mod Looks
pub mod Unnamed
