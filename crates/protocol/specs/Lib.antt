pub mod Replies
pub mod Stages
