pub mod Rj
