pub mod Decrement
pub mod Quotients
pub mod DecrementLaws
pub mod Small
pub mod Places
