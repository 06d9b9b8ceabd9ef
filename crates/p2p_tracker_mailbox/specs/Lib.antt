pub mod Desk
pub mod Lines
pub mod Mailboxes
pub mod OracleLaws
pub mod Questions
