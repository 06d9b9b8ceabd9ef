pub mod Fits
pub mod GossipSize
pub mod Narrowed
pub mod Reading
pub mod Spelling
pub mod Verifying
