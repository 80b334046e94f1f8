pub mod Limits
pub mod Input
pub mod FirstBad
pub mod Reading
pub mod Dealing
pub mod Opened
pub mod Runs
pub mod Laws
