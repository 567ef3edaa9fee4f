pub mod Decimal
pub mod Leading
