pub mod Statements
pub mod inside
