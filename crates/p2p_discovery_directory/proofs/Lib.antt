mod Keeping
mod Telling
pub mod Dialed
pub mod Forgetting
pub mod Gossiping
pub mod Known
pub mod Listing
pub mod Living
pub mod Placed
pub mod Places
pub mod Putting
pub mod Representing
pub mod Settled
pub mod Turned
pub mod Unstale
