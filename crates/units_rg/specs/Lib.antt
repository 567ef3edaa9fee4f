pub mod Sorting
pub mod Means
pub mod RfShare
pub mod RdShare
