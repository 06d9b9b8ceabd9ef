pub mod Alternating
pub mod Eligible
pub mod KeptCalls
pub mod Named
pub mod Naming
mod Worked
