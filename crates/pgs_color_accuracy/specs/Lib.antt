pub mod Exact
pub mod Accuracy
