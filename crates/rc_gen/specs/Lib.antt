pub mod Units
pub mod Generated
pub mod inside
