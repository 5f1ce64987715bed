pub mod OdsCells
