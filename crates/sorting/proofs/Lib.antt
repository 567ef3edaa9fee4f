pub mod Permuted
pub mod SortingLaws
