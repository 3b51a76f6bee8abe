-- Definitions that only clauses of private functions cite.
pub mod Ring
pub mod Strings
pub mod Latest
pub mod Index
