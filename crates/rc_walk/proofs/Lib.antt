pub mod LastStatements
pub mod FrontWalked
pub mod HeldContexts
