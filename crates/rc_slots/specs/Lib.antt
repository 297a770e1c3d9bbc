pub mod ScopeBlocks
pub mod Slots
pub mod Owner
pub mod CacheRun
pub mod inside
