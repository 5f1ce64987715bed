pub mod OdsBody
