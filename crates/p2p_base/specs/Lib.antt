pub mod KeyBytes
pub mod KeyLaws
pub mod Moments
pub mod Outcome
pub mod Policy
pub mod Queue
pub mod Ready
pub mod Sorted
