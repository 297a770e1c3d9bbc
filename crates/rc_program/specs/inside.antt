-- How private functions say that they stop the program, and what they say of a replay.
pub mod Replay
pub mod Stop
