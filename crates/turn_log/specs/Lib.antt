pub mod Room
pub mod Sent
pub mod Turn
pub mod Sender
