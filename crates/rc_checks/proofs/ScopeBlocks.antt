-- The scope blocks of a tree, and that a spelled tree has each scope once.
pub mod ContentsLemmas
mod TimesLemmas
pub mod SpelledOnce
