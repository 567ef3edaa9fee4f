pub mod Cut
pub mod Laws
pub mod Fraction
pub mod Jam
pub mod Sign
