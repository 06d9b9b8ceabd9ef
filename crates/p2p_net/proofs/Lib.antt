pub mod Acting
pub mod Applied
pub mod Meetings
pub mod Records
pub mod Requesting
pub mod Running
