pub mod Rows
pub mod OwnersSeen
pub mod LanesSeen
pub mod Steps
