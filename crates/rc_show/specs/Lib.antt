pub mod Showing
pub mod Sending
pub mod ShownParts
pub mod ShownKinds
pub mod NotNull
pub mod inside
