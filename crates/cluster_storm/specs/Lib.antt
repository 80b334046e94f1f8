pub mod Crew
pub mod Dealing
pub mod Rest
pub mod Opening
pub mod Seating
pub mod Meeting
pub mod Ending
pub mod Taking
