pub mod Replies
pub mod Stream
pub mod StreamLaws
