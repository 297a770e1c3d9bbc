-- The value of a container once a `&mut` into it has ended.
pub mod list
pub mod table
pub mod keyed
pub mod boxed
