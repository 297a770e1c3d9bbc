-- What private functions say of each other.
pub mod AnswerSent
pub mod Cases
pub mod Cited
pub mod FunctionSent
pub mod Levels
pub mod NestedViews
pub mod Numbering
pub mod StatementViews
pub mod TablesSent
pub mod TerminalViews
pub mod Terminals
pub mod ValueViews
