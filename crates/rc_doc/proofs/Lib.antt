mod Blocks
mod FoundLemmas
mod Lengths
