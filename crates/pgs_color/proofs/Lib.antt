pub mod Clamping
