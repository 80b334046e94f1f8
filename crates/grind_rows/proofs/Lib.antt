pub mod Drawn
pub mod Lengths
pub mod Below
