pub mod Arriving
pub mod Batch
pub mod Batching
pub mod Delivering
pub mod Intake
pub mod Limiting
pub mod Throttled
