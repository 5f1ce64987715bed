pub mod WdsBody
