-- No clause of a public function cites anything here.
pub mod Stored
pub mod Parts
