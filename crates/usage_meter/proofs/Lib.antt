pub mod Sums
pub mod Usage
pub mod Words
pub mod Keeps
pub mod Refused
pub mod Readings
