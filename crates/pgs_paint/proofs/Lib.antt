pub mod RowLaws
pub mod PlaneLaws
pub mod ClipLaws
