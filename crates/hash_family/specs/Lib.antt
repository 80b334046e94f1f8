pub mod Hash
pub mod Hashed
pub mod Reciprocal
