pub mod Sums
pub mod Bytes
