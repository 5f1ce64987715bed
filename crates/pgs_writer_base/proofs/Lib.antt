pub mod BodyLaws
pub mod EachLaws
pub mod FitLaws
pub mod PlacementLaws
pub mod PutLaws
pub mod WriteKinds
pub mod WriteLaws
pub mod SumLaws
