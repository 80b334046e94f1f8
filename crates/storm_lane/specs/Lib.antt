pub mod Readers
pub mod Lane
pub mod Stepping
pub mod Work
