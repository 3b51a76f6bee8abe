-- Definitions that only clauses of private functions cite.
pub mod Counting
pub mod Reading
pub mod Rising
pub mod Telling
pub mod Writing
