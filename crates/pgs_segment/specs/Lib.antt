pub mod Fields
pub mod Header
pub mod OneSegment
