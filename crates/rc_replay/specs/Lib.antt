pub mod GivenRun
pub mod inside
