pub mod Cards
pub mod Sets
