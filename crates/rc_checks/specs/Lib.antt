pub mod BreakTargets
pub mod Labels
pub mod ScopeBlocks
pub mod Membership
pub mod UnusedScopes
pub mod inside
