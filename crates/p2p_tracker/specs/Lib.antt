pub mod Following
pub mod Putting
pub mod Serving
pub mod Stepping
pub mod Steps
pub mod Telling
pub mod Tracking
