pub mod Opening
pub mod Layout
pub mod Changes
pub mod Rule
pub mod Plays
pub mod Seating
pub mod Laying
pub mod Seats
