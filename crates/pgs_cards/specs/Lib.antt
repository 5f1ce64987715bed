pub mod Cards
pub mod Reports
pub mod Walks
