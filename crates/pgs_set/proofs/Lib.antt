pub mod Choices
pub mod NumberLaws
pub mod OpenLaws
pub mod RecordLaws
pub mod SegmentLaws
pub mod SetLaws
pub mod WalkLaws
