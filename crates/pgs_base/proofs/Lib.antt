pub mod Bytes
pub mod Decisions
pub mod Digits
pub mod Front
pub mod Lists
pub mod Outcomes
