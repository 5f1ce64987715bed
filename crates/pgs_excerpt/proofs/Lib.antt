pub mod ReadBack
pub mod Alone
pub mod SameObjects
pub mod SamePainting
