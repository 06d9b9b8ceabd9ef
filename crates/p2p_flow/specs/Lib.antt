pub mod Blocking
pub mod Lanes
pub mod Provided
pub mod SetSize
pub mod Subscribed
