pub mod Charged
pub mod Counted
pub mod Emptied
pub mod Orders
pub mod Passing
pub mod Turning
