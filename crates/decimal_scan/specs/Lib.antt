pub mod Figures
pub mod Scan
pub mod Number
pub mod Held
pub mod HeldLaws
pub mod Few
