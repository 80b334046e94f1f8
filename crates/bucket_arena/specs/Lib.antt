pub mod Piece
pub mod Row
pub mod Chains
pub mod Arena
