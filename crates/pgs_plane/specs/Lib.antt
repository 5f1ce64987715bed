pub mod Strips
pub mod Placing
pub mod Pictures
pub mod Calls
