pub mod Addresses
pub mod Ranges
