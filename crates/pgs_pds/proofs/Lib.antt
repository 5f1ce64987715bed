pub mod PdsLaws
