-- Steps of the proofs: only private clauses cite them, no public one does.
pub mod Values
pub mod Faults
