pub mod PcsBody
pub mod Placements
