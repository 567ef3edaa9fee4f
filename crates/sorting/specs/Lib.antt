pub mod Sorting
pub mod Order
pub mod Permuted
pub mod SortingLaws
