pub mod BitmapArea
pub mod DecodeAnswers
