pub mod Bytes
pub mod Outcome
pub mod Refusals
