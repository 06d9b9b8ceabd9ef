mod Backwards
mod Names
