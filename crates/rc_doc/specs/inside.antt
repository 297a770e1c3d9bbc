-- What the functions of this crate say of each other; no public clause needs it.
pub mod Found
pub mod Blocks
pub mod Names
