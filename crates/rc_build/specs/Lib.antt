pub mod References
pub mod TerminalForms
pub mod BlockFacts
pub mod RuleFacts
pub mod BuildCauses
pub mod GivenTree
pub mod inside
