pub mod FillLaws
pub mod FoldLaws
pub mod HexLaws
pub mod LineLaws
pub mod ReportLaws
pub mod RoomLaws
