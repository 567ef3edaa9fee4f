pub mod Words
pub mod Count
