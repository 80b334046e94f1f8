pub mod Each
pub mod Sent
pub mod OwnerState
pub mod OwnWork
pub mod PartState
pub mod Follow
pub mod Finish
pub mod Linking
