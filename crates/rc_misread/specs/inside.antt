-- What private functions, and lemmas, say of each other.
pub mod Parts
