pub mod FirstBroken
pub mod Headers
pub mod Gpdus
pub mod Digits
pub mod Values
pub mod Vectors
