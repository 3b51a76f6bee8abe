pub mod Pieces
pub mod Lines
pub mod NumberLines
pub mod Sequence
pub mod Refusal
pub mod Answers
pub mod Writing
