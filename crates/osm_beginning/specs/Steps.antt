-- Definitions that only clauses of private functions cite.
pub mod Beginning
pub mod Passes
pub mod Emptying
pub mod Sinks
pub mod Storing
