pub mod CommandLine
pub mod Echo
pub mod Locks
pub mod Saves
pub mod Steps
