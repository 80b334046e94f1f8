pub mod Letters
pub mod Keeps
pub mod Sent
