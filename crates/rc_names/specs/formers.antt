-- Containers through which a type may hold itself.
pub mod list
pub mod boxed
