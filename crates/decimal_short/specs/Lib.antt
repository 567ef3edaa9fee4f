pub mod Shortest
pub mod Above
pub mod Within
pub mod Seventeen
pub mod Range
pub mod Closest
pub mod Examples
