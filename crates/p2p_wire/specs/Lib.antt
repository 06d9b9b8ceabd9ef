pub mod Varint
pub mod Frame
