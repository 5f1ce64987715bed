pub mod OdsLaws
