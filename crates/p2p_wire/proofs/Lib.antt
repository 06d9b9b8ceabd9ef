pub mod Spellings
pub mod Rows
pub mod Laws
