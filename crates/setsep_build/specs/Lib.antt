pub mod Placing
pub mod Refused
pub mod Block
pub mod Cut
pub mod Parts
pub mod Workers
