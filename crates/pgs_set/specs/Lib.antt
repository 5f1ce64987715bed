pub mod Records
pub mod Segments
pub mod Sets
pub mod Walks
