pub mod Demand3
pub mod ReadAgain
pub mod StreamWriteLaws
