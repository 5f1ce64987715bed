pub mod PdsBody
