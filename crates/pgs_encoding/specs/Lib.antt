pub mod Cut
pub mod Demand3
pub mod Encode
pub mod Layout
pub mod Writable
pub mod Writes
