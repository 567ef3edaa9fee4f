pub mod Leaves
pub mod Above
pub mod Cases
pub mod Rc
pub mod Series
pub mod Rounds
