pub mod Files
pub mod Frames
pub mod Steps
pub mod Stores
