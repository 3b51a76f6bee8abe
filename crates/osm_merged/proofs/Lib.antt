pub mod AheadLemmas
pub mod TurnLemmas
pub mod LoopLemmas
pub mod LawLemmas
pub mod FirstLemmas
pub mod PassLemmas
pub mod OpeningLemmas
