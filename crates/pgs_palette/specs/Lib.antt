pub mod Palette
pub mod Table
