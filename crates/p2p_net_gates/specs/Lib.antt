pub mod Attempts
pub mod DialerStands
pub mod Dialing
pub mod Handshaking
pub mod ListenerStands
pub mod Listening
pub mod Stopping
