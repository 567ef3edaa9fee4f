pub mod Closest
pub mod Examples
pub mod Fewest
pub mod Largest
pub mod Order
pub mod Range
pub mod Seventeen
pub mod Within
