pub mod Replies
pub mod Room
