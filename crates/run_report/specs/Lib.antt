pub mod Report
pub mod Law
