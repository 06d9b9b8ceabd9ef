pub mod Changes
pub mod Cuts
pub mod Drops
pub mod Ending
pub mod Left
pub mod StopEnds
