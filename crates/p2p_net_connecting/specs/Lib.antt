pub mod Connecting
pub mod Ending
pub mod Receiving
pub mod Steps
