-- Steps of the proofs: the view and clauses of private functions cite them, no public clause does.
pub mod Entries
pub mod Index
pub mod Recent
