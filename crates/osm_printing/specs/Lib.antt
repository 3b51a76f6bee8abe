pub mod Printing
pub mod Keeping
pub mod Steps
