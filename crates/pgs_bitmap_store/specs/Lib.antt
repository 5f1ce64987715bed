pub mod Padding
pub mod Progress
