-- Steps of proofs that clauses of private functions cite.
-- No clause of a public function cites them.
pub mod Reading
pub mod Taking
