-- Definitions that only clauses of private functions cite.
pub mod Starting
pub mod Taking
pub mod Writing
pub mod Heading
