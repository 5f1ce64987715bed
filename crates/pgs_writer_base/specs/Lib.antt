pub mod Answers
pub mod Bodies
pub mod Kinds
pub mod Rows
