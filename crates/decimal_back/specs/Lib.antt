pub mod Count
pub mod Goes
pub mod Laid
pub mod Same
pub mod Value
