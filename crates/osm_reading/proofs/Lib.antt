pub mod StepLemmas
pub mod PieceLemmas
pub mod SequenceLemmas
mod StandardFacts
