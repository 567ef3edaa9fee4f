pub mod AnyOrder
pub mod PlainLaws
pub mod Seen
pub mod MinusZero
