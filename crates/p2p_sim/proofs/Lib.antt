pub mod GeneratedValid
pub mod Spelling
pub mod TakesLaws
