pub mod Scripts
pub mod FirstBadFacts
pub mod Forms
mod Vectors
