-- Definitions that only clauses of private functions cite.
pub mod Parsing
pub mod Replaying
