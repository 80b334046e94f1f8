pub mod Adds
pub mod Rule
pub mod Plays
pub mod Seating
pub mod Seats
