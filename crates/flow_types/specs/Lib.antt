pub mod Input
pub mod Key
pub mod Limits
pub mod Map
pub mod Refusal
pub mod Size
pub mod Text
pub mod Octet
