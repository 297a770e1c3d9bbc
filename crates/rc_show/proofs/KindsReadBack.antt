-- The printing form of a value reads as that value again: the kinds.
pub mod Variables
pub mod Expressions
pub mod Calls
pub mod Objects
