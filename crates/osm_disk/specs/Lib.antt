pub mod Counts
pub mod Names
pub mod Reading
pub mod Steps
