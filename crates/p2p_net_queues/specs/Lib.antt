pub mod Board
pub mod Lends
pub mod Lines
pub mod Matching
pub mod Meters
pub mod Rows
pub mod Tables
