pub mod PcsLaws
