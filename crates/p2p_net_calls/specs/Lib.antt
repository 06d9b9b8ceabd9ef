pub mod Calls
pub mod Offering
pub mod Stopping
