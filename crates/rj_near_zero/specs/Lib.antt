pub mod NearZero
