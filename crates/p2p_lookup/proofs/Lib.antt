mod Ending
mod Idle
mod Resting
