pub mod Fits
pub mod Working
