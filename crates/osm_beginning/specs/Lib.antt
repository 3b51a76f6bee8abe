pub mod Beginning
pub mod Keeping
pub mod Steps
