mod Filling
mod Limiters
pub mod Registration
mod Unchanged
