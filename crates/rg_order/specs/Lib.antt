pub mod Plain
pub mod Seen
