pub mod ReadingLaws
pub mod SegmentLaws
pub mod StreamLaws
