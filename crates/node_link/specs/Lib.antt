pub mod Letter
pub mod Rule
pub mod Moves
pub mod Ends
