pub mod ShownFates
pub mod ReadingFates
pub mod AnswerJson
pub mod NotNull
pub mod inside
