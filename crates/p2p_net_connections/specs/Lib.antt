pub mod Connections
pub mod Dialing
pub mod Pinging
pub mod Spawner
pub mod SpawnerStands
pub mod Stands
pub mod Stopping
