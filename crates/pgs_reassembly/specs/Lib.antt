pub mod Objects
pub mod Reassembly
pub mod Tables
