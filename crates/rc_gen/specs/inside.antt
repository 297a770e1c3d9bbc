-- How private functions say that block numbers rise.
pub mod Keys
