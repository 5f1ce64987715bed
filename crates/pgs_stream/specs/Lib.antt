pub mod Segments
pub mod Stream
