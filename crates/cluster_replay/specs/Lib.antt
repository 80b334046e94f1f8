pub mod Outcome
pub mod Seen
pub mod Laws
pub mod Cluster
pub mod Turn
