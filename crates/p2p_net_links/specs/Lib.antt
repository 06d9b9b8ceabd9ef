pub mod Cutting
pub mod Dropping
pub mod Left
pub mod Links
pub mod Stands
