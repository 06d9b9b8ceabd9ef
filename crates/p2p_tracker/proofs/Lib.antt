mod Allowed
pub mod Asking
pub mod Connecting
pub mod Exact
pub mod Following
pub mod Putting
pub mod Readdressing
pub mod Standing
pub mod Stepping
pub mod Told
pub mod Turns
