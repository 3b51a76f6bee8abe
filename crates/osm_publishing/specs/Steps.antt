-- Definitions that only clauses of private functions cite.
pub mod Lagging
pub mod Numbering
pub mod Publishing
