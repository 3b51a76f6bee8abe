-- How lines are read and written, step by step: no public clause cites these definitions.
pub mod Plain
pub mod Adding
pub mod Writing
pub mod Begins
pub mod BeginsFlat
