mod KindsReadBack
mod PartsReadBack
pub mod PlainForms
mod PlainValues
pub mod ReadsBack
pub mod SendingLemmas
pub mod SentTexts
pub mod ShownLists
