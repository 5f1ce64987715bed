pub mod RunLength
pub mod NextCode
pub mod Literals
