-- Definitions that only clauses of private functions cite.
pub mod Getting
