pub mod Versions
pub mod Counts
pub mod OneCase
pub mod Steps
pub mod Removed
pub mod Judged
pub mod Answers
