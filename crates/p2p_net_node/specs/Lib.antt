pub mod Meetings
pub mod Places
pub mod Ready
pub mod Requested
pub mod Routing
pub mod Stands
pub mod Staying
