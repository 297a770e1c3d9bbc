-- What private functions say of each other.
pub mod Positions
pub mod Paths
pub mod Closing
pub mod GraphTable
pub mod Exits
pub mod LoweredValue
pub mod Lowered
pub mod Layout
pub mod RowOfTest
pub mod EarlyReturn
pub mod LaidExits
pub mod LaidBody
