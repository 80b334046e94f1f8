pub mod Change
pub mod Journal
pub mod Kept
pub mod History
pub mod Routes
pub mod Acceptance
pub mod Refused
