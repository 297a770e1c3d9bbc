pub mod NewBlocks
pub mod Entries
pub mod Statements
pub mod EarlyReturned
pub mod inside
