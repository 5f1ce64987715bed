pub mod BitmapSteps
pub mod UntestedWidth
pub mod LiteralStretch
pub mod FullEights
