pub mod PcsCells
pub mod PdsCells
