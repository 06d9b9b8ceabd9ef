mod Admitted
pub mod Changes
pub mod Checks
pub mod Closing
pub mod Mailboxes
pub mod Metering
pub mod Quotas
pub mod Readers
pub mod Registering
pub mod Senders
pub mod Sending
