-- What private functions, and lemmas, say of each other.
pub mod RewriteInPlace
pub mod Refines
pub mod StatementsRefine
pub mod EnoughFuel
pub mod RuleFaults
pub mod JoiningLaws
pub mod DecisionLogs
