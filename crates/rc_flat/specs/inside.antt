-- What private functions say of each other.
pub mod Assembly
