pub mod Arrivals
pub mod Channels
pub mod Senders
pub mod Stands
