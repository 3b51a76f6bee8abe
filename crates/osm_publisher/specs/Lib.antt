pub mod Published
pub mod Publisher
pub mod Steps
