-- Read in this order: the levels, the memo table, what a place names, what rows and trees tell, the facts of that and
-- the nodes that they give, and the record.
pub mod Level
pub mod Table
pub mod Mentions
pub mod RowEvents
pub mod TreeEvents
pub mod Facts
pub mod Events
pub mod Record
pub mod RowRecord
pub mod inside
