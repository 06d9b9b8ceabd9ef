pub mod Cutting
pub mod Dialing
pub mod Finishing
pub mod Linking
pub mod Spawning
