pub mod Difference
pub mod Grid
pub mod Terms
pub mod Accuracy
