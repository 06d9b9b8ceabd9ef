pub mod Fits
mod Idle
mod Resting
mod Taking
mod Worked
