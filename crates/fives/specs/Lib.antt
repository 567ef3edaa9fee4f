pub mod Powers
pub mod Laws
