-- What private functions, and lemmas, say of each other.
pub mod FrontWalk
pub mod HeldContext
