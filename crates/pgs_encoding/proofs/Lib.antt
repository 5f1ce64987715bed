pub mod Demand3
pub mod KeptBodies
pub mod LayoutLaws
pub mod RecordBytes
pub mod RecordKinds
pub mod SegmentBytes
pub mod WrittenBodies
