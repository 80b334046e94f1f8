pub mod Shard
pub mod Store
pub mod Turns
pub mod Owners
pub mod Seats
pub mod Refused
