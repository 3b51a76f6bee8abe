pub mod Calls
pub mod Frames
pub mod Places
pub mod Steps
pub mod Writing
