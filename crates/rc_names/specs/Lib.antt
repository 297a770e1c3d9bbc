pub mod BitRows
pub mod Numbers
pub mod Lends
pub mod formers
