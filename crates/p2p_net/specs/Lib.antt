pub mod Acts
pub mod Applying
pub mod Events
pub mod Refusals
pub mod Requesting
pub mod World
