pub mod ChainStages
pub mod Packs
pub mod Replies
pub mod Stages
