pub mod Fragments
pub mod Kinds
pub mod States
pub mod Updates
