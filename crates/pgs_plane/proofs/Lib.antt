pub mod StripLaws
pub mod CallLaws
pub mod LastWins
pub mod LastCovering
