pub mod Draws
pub mod Made
pub mod Rows
pub mod Input
