pub mod Causes
pub mod Passes
pub mod Fates
pub mod Headline
pub mod Explained
pub mod inside
