pub mod Sink
pub mod LineText
pub mod ValueLines
pub mod Lines
pub mod FunctionLines
pub mod FaultLine
pub mod Counts
pub mod inside
