pub mod Duplicate
