pub mod ListedSets
