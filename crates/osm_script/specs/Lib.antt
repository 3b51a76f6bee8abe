pub mod Script
pub mod Replies
pub mod Replay
pub mod Steps
