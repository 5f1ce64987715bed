pub mod WdsLaws
