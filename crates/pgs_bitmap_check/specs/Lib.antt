pub mod Bitmap
pub mod Progress
