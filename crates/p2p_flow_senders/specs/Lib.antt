pub mod Admission
pub mod Limits
pub mod Receiving
pub mod Registering
pub mod SenderAt
pub mod Senders
pub mod Sending
