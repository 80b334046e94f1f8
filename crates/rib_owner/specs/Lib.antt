pub mod Rib
pub mod Turn
pub mod Part
pub mod Judging
pub mod Stock
pub mod Decision
pub mod Opening
