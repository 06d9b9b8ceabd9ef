pub mod Beginning
pub mod Gathering
pub mod Hearing
pub mod Opening
pub mod Routing
pub mod Sizing
