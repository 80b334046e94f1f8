pub mod Answering
pub mod Asking
pub mod Lists
pub mod Pairs
pub mod Seating
