pub mod Fibs
pub mod Path
pub mod Seated
