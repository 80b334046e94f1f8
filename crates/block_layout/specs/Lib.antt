pub mod Limits
pub mod Candidate
pub mod Choices
pub mod Dealing
pub mod Packing
