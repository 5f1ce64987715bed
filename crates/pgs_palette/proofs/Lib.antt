pub mod Laying
pub mod Calls
