-- What private functions say of the record as it comes to be.
pub mod Growing
pub mod Nodes
pub mod RowNodes
pub mod Recording
