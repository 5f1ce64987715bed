pub mod Palettes
pub mod Images
pub mod Rendering
pub mod Records
pub mod Steps
