-- Definitions that only clauses of private functions cite.
pub mod Copying
pub mod Flat
pub mod Laying
