pub mod Forms
pub mod Kinds
pub mod Terminals
pub mod Fields
pub mod Misread
pub mod Misreads
pub mod inside
