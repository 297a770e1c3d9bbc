-- What the calls of this crate promise each other.
pub mod Places
pub mod ToldFacts
