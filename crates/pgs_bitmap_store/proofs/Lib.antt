pub mod RunFill
pub mod BitmapStores
