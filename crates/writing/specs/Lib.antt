pub mod Decimal
pub mod Written
pub mod Places
pub mod Input
pub mod Parts
pub mod Bad
pub mod Fed
pub mod FedLaws
