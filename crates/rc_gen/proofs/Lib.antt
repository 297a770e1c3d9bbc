pub mod SizeLemmas
mod Examples
