pub mod Connections
pub mod Lends
pub mod Mailbox
pub mod Messenger
pub mod MessengerLaws
pub mod Routes
pub mod Routing
pub mod Step
