pub mod Journal
pub mod Refusal
pub mod Openings
pub mod Answers
pub mod Reading
